pub mod RootLists
pub mod Theorems
pub mod PrivateSearch
