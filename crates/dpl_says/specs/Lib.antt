-- What a text says, in reading order: the values of sets, the text's refusal or its program, and the dump. All of it is to be believed.
pub mod Given
pub mod Says
pub mod Dump
