mod Meanings
mod Opens
