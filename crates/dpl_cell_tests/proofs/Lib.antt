-- The lemmas of the clients of boards, by the laws of histories.
pub mod CountingLemmas
pub mod PassingLemmas
