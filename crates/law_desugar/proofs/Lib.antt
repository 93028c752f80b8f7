pub mod CoreIsChecked
