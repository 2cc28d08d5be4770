pub mod RoundsLaws
