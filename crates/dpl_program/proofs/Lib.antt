pub mod Bodies
pub mod Shared
-- A print is a walk.
pub mod Printed
