pub mod QuietLaws
pub mod SilentLaws
