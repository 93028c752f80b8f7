mod Lines
mod Numbers
