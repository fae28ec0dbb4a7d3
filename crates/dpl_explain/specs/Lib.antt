-- What a person is shown of a text: the line of a place with a mark under its column, as a terminal may show it.
pub mod Excerpt
pub mod Help
