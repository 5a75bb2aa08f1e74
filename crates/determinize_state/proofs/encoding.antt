pub mod EncodedLength
pub mod EqualBytes
pub mod ReadBytes
pub mod RoundTrip
pub mod Varints
