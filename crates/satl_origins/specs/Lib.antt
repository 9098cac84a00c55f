pub mod Lost
pub mod Origins
