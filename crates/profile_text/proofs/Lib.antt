mod Bars
mod Counted
