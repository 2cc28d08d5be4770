pub mod LoadedLaws
pub mod Listings
pub mod ListingBound
