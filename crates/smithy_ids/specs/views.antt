pub mod ShapeIdParts
