pub mod StepCalls
