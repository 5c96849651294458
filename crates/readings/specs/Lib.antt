pub mod Kinds
pub mod Codes
pub mod Spans
pub mod Faults
pub mod SpanLaws
