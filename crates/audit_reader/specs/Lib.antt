-- What an auditor of reports cites: the lines that it takes, the history that they tell, and what it finds amiss.
pub mod Digits
pub mod LineFronts
pub mod Beginnings
pub mod ReportLines
pub mod Audits
pub mod Following
pub mod LastLines
