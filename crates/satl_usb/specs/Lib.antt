pub mod Answering
pub mod Bridge
pub mod Exchanges
pub mod Headline
pub mod Items
pub mod Reading
pub mod Serving
pub mod Wire
