pub mod GenLaws
