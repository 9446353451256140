pub mod Codes
pub mod WorkflowCommand
