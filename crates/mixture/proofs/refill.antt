pub mod FreshLaws
pub mod GatherLaws
