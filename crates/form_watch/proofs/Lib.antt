mod Pages
mod ReadPages
mod Published
mod Full
mod Runs
mod Tellings
mod Forms
