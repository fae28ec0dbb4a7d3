-- Parts of parts of a text.
mod Parts
