pub mod PrivateNeeded
