mod Piped
