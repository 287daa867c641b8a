pub mod KnownStreams
