-- Which trees are calm; and typed statements are, but for foralls outside of all.
pub mod CalmTrees
pub mod CalmSteps
-- Calm statements do the same whatever is to come, and whatever is noted.
pub mod Coming
pub mod Unnoted
pub mod Unseen
-- Walks one after another.
pub mod Taken
pub mod Walking
-- Operations on cells: what they are on the way, and who answers them.
pub mod Calling
pub mod Answered
