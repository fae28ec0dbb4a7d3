-- What stands from a place of a text on ends the text.
mod Parts
