pub mod PrivateSharings
