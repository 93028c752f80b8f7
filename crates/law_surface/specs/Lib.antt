pub mod CoreIsSurface
pub mod GoodGivesGood
pub mod PlacedApart
pub mod SameNames
pub mod DepthIsFound
pub mod PrefixIsFree
pub mod InstancesAreNew
pub mod SurfaceMeans
