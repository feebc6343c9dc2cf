pub mod RoomLaws
pub mod TextFits
