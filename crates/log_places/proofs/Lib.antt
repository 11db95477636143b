pub mod SpanLaws
pub mod TimesLaws
pub mod RiseLaws
pub mod PlaceLaws
pub mod UuidLaws
pub mod NextLaws
