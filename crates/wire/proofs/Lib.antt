pub mod SegmentLaws
pub mod RouteLaws
pub mod InstanceLaws
