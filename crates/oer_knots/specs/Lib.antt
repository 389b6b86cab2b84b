-- The definitions that contracts cite: types that contain themselves, and rows, choices and lists that hold values of them.
pub mod Additions
pub mod Answering
pub mod Choices
pub mod Knots
pub mod Lists
pub mod OwnLists
pub mod Reading
pub mod Rows
pub mod Ties
