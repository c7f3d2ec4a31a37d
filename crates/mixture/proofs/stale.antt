pub mod StaleLaws
