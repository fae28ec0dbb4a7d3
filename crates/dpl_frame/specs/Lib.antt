-- What a frame stands for, the maps of its roots, and by which of them a forall's turns are dealt out; what the frame of a worker has; and what
-- a walk over a frame hands back.
pub mod Roots
pub mod Frames
pub mod Dealt
pub mod Shares
pub mod Faults
