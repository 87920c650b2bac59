pub mod PrivatePrimes
pub mod SumRows
