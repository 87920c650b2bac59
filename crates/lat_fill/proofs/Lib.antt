pub mod DegreeLists
pub mod MemberLists
pub mod MadeFields
pub mod WayLists
pub mod ExitTables
pub mod FilledLattices
