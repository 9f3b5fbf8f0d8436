pub mod ByteClasses
pub mod DocumentCode
pub mod DocumentView
pub mod MapViews
