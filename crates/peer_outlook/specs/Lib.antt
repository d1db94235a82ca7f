pub mod Outlook
