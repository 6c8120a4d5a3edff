mod OptionLaws
mod OpenLaws
mod ReshardLaws
pub mod TextLaws
pub mod ElementLaws
pub mod HexLaws
