-- Laws for the calls on a sound store.
pub mod Carrying
pub mod Opening
pub mod Linking
pub mod Rising
pub mod Setting
pub mod Relating
pub mod Reading
