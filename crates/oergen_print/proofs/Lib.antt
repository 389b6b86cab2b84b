-- Lemmas that proofs cite.
mod Following
