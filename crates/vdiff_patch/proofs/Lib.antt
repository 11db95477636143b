pub mod StepLaws
pub mod RepairLaws
pub mod RisingLaws
pub mod WalkLaws
