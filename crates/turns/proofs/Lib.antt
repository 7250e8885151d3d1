mod Filled
mod WholeInputs
