pub mod machines
