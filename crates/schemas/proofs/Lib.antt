pub mod Results
pub mod Small
