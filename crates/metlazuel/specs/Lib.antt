pub mod Calls
pub mod LogCalls
pub mod CellCalls
pub mod Bits
pub mod WireCalls
pub mod MeterCalls
