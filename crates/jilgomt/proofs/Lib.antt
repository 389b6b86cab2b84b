-- The lemmas that proofs use.
mod Promises
