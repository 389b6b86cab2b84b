-- The lemmas that proofs use.
pub mod Layers
pub mod ListsOfOne
pub mod PushedElements
