-- What a walk in a task makes is the task by itself; and a coforall of such tasks is a walk.
pub mod Alone
pub mod Tasking
