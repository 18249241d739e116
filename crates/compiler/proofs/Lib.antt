pub mod CompileReturns
