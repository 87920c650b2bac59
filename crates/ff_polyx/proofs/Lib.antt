pub mod FieldCarriers
pub mod ValuePlaces
pub mod ImageLists
