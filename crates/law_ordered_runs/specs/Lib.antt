pub mod RunsGoOn
pub mod InOrder
pub mod InOrderCompletes
