pub mod Files
pub mod NamedTexts
