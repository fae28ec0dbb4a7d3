-- The lemmas: what an event more does to a history, what is replied, and that a channel hands its values on.
-- `Worked` has rows of each definition, by computation.
pub mod Histories
pub mod Replies
pub mod Values
pub mod Worked
