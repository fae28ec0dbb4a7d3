mod WorkedRanges
mod WorkedDomains
