pub mod PolicyParts
