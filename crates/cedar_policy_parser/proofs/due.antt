pub mod DueLeaves
pub mod DueMembers
pub mod DueRight
pub mod DueSides
pub mod DueTrees
pub mod OneKind
pub mod ParsedDue
