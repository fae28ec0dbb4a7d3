-- The language's ranges, as lists of integers.
pub mod Members
pub mod Ranges
pub mod RangeSlices
pub mod TextRanges
-- And its domains, as lists of index tuples.
pub mod Indices
pub mod Order
pub mod IndexTexts
pub mod DomainSlices
pub mod Expansions
pub mod TextDomains
-- What a shifted read takes of an index.
pub mod Subscripts
